pub mod Counting
pub mod Steps
pub mod Joining
pub mod Passes
