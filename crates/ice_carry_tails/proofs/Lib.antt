pub mod Added
pub mod NewDrivers
mod NewSteps
pub mod Taken
pub mod NewFormed
mod Grown
mod ReadSignals
pub mod Ended
mod Owned
mod TailExamples
