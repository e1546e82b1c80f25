pub mod Paths
pub mod PointDelays
pub mod Entries
pub mod Latest
pub mod Arriving
pub mod Timed
pub mod PathText
