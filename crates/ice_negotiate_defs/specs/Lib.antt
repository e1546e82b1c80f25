pub mod Trees
pub mod Rounds
pub mod Tallies
pub mod Logs
pub mod Determined
pub mod Leading
pub mod Fitting
