pub mod Adding
pub mod AddedCells
