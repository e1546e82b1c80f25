pub mod Adds
pub mod Lists
