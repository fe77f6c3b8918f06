pub mod ImageLaws
pub mod BackLaws
