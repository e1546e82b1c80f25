pub mod Faults
pub mod Shown
pub mod Laid
pub mod Answers
pub mod Stages
pub mod Placements
