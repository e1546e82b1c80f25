mod Headed
mod TilesWith
mod Sections
pub mod TextSays
