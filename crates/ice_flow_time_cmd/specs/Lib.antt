pub mod Timings
pub mod TimeRows
