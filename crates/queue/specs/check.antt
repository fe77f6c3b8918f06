-- The check of an area: one pass over its records, and what that needs.
pub mod RulesAs
pub mod FilterAs
pub mod SuspectsAs
pub mod ReadsAs
pub mod NumbersAs
pub mod ScanAs
pub mod AreaAs
