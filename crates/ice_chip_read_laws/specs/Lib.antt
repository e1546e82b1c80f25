pub mod ChipText
pub mod ChipTextLaw
pub mod Pins
