pub mod paper
pub mod ImageAs
pub mod WayBack
