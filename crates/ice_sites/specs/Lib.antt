pub mod Site
pub mod Stretches
pub mod Legal
