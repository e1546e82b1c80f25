pub mod Tasks
pub mod Work
pub mod Kits
pub mod Lawfulness
