pub mod NetlistLaws
pub mod PortPlaces
pub mod Single
pub mod SignalLists
pub mod MeaningExamples
