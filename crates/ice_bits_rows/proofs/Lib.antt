mod OneOn
mod Listing
mod Values
mod Shares
mod ForeignBits
mod Own
mod Alike
mod ApartGroups
mod Marking
mod Pins
mod Ascent
mod Meeting
mod Passing
pub mod WireUses
pub mod Taken
pub mod Known
mod Blocks
