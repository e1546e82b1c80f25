mod Joining
mod FitSteps
pub mod Weights
mod Orders
mod Fitted
pub mod SitesOnce
mod ChunkPlaces
mod Placing
