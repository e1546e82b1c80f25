pub mod Feeds
pub mod WithoutRams
