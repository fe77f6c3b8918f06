pub mod Laws
pub mod Walk
pub mod Same
pub mod Claims
pub mod Maps
pub mod Masks
pub mod Rows
