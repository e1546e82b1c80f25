mod Parts
mod PackedCells
mod PackedCarries
mod PadOrigins
mod PackedPads
mod PackedResets
mod PackedRoots
mod PackedReads
mod Forming
mod Few
pub mod Constants
