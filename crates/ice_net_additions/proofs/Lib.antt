pub mod Added
pub mod AddedCells
pub mod AddedNames
pub mod Growths
pub mod GrownSound
pub mod GrownSteps
pub mod GrownValues
