pub mod Raised
pub mod Closing
