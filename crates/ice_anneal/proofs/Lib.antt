mod Finish
mod Fullness
mod Wider
pub mod Measured
mod Repeats
mod Orders
mod Seatings
mod Tables
