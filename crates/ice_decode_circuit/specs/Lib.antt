pub mod ForeignTiles
pub mod ForeignPlaces
pub mod PadTiles
pub mod Searched
