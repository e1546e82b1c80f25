pub mod Lists
pub mod Turns
pub mod Behind
pub mod Along
pub mod Laws
