-- The layout: frames of a header and of a record, in an area or in a text; limits; the values of a record's fields.
pub mod Choice
pub mod FrameCodec
pub mod FormsCodec
pub mod RecordsAs
pub mod FrameAs
pub mod LimitsAs
pub mod HeadAs
pub mod ReasonAs
pub mod StateAs
