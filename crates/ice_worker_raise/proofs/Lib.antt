pub mod Raising
pub mod Summing
