pub mod Sites
pub mod Tiles
