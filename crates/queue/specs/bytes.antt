-- Numbers, ids and parts of lent bytes, read and written; nothing here knows a queue.
pub mod PutAs
pub mod Parts
pub mod ReaderAs
pub mod ReaderLaws
pub mod ViewAs
pub mod OrderLaws
pub mod ListLaws
pub mod OrderAs
