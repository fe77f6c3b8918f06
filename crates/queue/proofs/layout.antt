-- The layout: frames of a header and of a record, in an area or in a text; limits; the values of a record's fields.
pub mod FrameLaws
pub mod TurnLaws
pub mod HeadLaws
pub mod HeaderLaws
pub mod LimitsLaws
pub mod RisingLaws
