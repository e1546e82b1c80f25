pub mod Wires
pub mod Leaving
pub mod Stepping
pub mod Working
pub mod Lawful
pub mod Moments
