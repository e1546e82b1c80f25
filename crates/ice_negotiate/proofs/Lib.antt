pub mod Listing
pub mod Beginning
pub mod Rounding
pub mod Keeping
pub mod Stating
