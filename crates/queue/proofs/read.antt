-- The reading calls.
pub mod ReadingLaws
pub mod SelectLaws
pub mod RankedLaws
pub mod RankedPlaceLaws
pub mod PiecesLaws
pub mod FindLaws
pub mod ReservedLaws
pub mod ReservedStandLaws
pub mod ReservedSnapshotLaws
pub mod SortedLaws
pub mod FeesWalkLaws
pub mod FeesSearchLaws
pub mod FeesLaws
pub mod LinksBitLaws
pub mod LinksNameLaws
pub mod LinksLaws
pub mod ParentsLaws
