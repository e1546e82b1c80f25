pub mod Clocks
pub mod Pins
