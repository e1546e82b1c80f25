pub mod Walks
pub mod Search
pub mod Paths
pub mod Queue
pub mod Room
pub mod Aims
pub mod Looks
pub mod Bounds
