pub mod Reads
pub mod Nodes
pub mod Sorted
pub mod Holders
