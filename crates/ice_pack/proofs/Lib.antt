pub mod Padding
mod Marking
mod Planning
