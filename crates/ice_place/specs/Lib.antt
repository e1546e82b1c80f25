pub mod Fit
pub mod Place
pub mod Answers
pub mod Views
