mod Passed
mod Turns
mod FirstChoices
mod GivenLines
mod Lower
pub mod Noting
mod PortPlaces
mod Fits
mod Inversions
mod GivenLaws
mod ChosenLaws
pub mod PackageLaws
mod RamPorts
mod OuterPorts
mod GlobalLaws
mod DirectLaws
pub mod AssignLaws
pub mod HavingPads
pub mod Fewer
pub mod SameWants
