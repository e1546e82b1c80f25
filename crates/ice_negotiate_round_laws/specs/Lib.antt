pub mod Events
pub mod Rounds
