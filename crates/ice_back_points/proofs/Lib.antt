mod Turned
pub mod Distinct
mod Filled
pub mod ConfiguredFacts
