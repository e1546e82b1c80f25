pub mod Lists
pub mod Parts
pub mod Seated
pub mod Draws
