mod Targets
mod Seen
pub mod Siding
mod Slotting
mod Rooting
mod Numbers
mod Netting
mod Leaving
