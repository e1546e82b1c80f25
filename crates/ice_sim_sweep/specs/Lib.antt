pub mod Slots
pub mod Feeds
pub mod Sweeps
pub mod Plans
pub mod Arrays
