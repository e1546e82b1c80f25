pub mod StepLists
pub mod Digits
