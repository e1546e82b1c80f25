mod Inputs
mod Values
mod Pins
pub mod AllValues
pub mod Steps
mod Readers
pub mod Found
pub mod Parts
pub mod Packs
pub mod Ready
pub mod PadRoots
pub mod PadReaders
pub mod PadsRead
pub mod Sources
pub mod Taken
pub mod Settled
