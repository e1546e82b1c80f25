pub mod Bounds
pub mod Raising
pub mod Moving
pub mod Sums
pub mod Counting
pub mod Running
pub mod Stepping
