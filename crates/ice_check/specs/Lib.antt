pub mod Tables
pub mod Faults
pub mod Loops
pub mod Sound
pub mod Refusals
pub mod Laws
