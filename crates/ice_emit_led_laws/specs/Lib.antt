pub mod Pins
pub mod Reads
pub mod Trees
pub mod RowsLed
pub mod PinsLed
