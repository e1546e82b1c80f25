pub mod Opened
pub mod First
pub mod Notes
pub mod Workers
pub mod Marks
