pub mod TableLaws
pub mod RangeFilters
pub mod SameControls
pub mod SamePairs
pub mod Permuted
mod DesignExamples
pub mod NodeLevels
