pub mod Roots
pub mod Numbers
pub mod Back
pub mod Law
