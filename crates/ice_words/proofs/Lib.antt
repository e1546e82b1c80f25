pub mod Steps
pub mod Closing
pub mod Fronts
pub mod Undoing
pub mod Showing
mod Verdict
