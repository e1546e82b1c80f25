pub mod Played
pub mod BitsRows
