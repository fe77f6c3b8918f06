-- The reading calls.
pub mod ReadingAs
pub mod SelectAs
pub mod fees
pub mod FeesAs
pub mod parents
pub mod LinksAs
pub mod PiecesAs
pub mod FindAs
pub mod ReservedAs
