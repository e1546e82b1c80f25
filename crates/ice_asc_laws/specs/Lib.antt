pub mod NamedTiles
