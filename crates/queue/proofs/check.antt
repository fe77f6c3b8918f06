-- The check of an area: one pass over its records, and what that needs.
pub mod ScanLaws
pub mod FilterLaws
pub mod SuspectsRowLaws
pub mod SuspectsLaws
pub mod ReadsLaws
pub mod NumbersLaws
pub mod ScanCheckLaws
pub mod AreaLaws
