mod Counting
mod Standing
mod Showing
pub mod Answering
mod Opening
mod Finishing
pub mod Excluding
