pub mod Wanted
pub mod Settings
