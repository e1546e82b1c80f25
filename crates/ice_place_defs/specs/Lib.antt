pub mod Plan
pub mod Loads
pub mod Length
pub mod RootNumbers
