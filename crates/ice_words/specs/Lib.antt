pub mod Views
pub mod Rule
pub mod Grips
pub mod Lawful
pub mod Deeds
pub mod Showing
