pub mod Chunks
pub mod Orders
pub mod Slots
