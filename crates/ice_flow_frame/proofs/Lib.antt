pub mod ReadStops
pub mod TextFacts
pub mod Writes
pub mod Commanding
pub mod Ended
pub mod Refusing
pub mod Standings
pub mod CommandRows
mod PieceTexts
pub mod Tells
