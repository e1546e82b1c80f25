pub mod Marks
pub mod Buffered
pub mod Parts
