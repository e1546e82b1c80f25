mod Marks
mod Counting
mod Taking
mod Openers
pub mod OriginSteps
pub mod UseLaws
pub mod LutLaws
pub mod HomeLaws
pub mod LevelLaws
