pub mod Grown
pub mod Plans
