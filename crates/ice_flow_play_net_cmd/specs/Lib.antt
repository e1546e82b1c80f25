pub mod Played
pub mod PlayRows
