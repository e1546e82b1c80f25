pub mod Filling
pub mod ConfiguredChips
