mod Ranges
mod Beside
pub mod Listed
mod Buffered
mod Enabling
mod Sited
