mod ReadRoots
mod Renaming
mod Arriving
mod Steps
pub mod MovedNumbers
mod TiedRuns
mod Shown
mod NewCells
mod AllValues
pub mod NewReads
mod PadReads
mod AlikeRuns
pub mod Movers
mod FormedRuns
