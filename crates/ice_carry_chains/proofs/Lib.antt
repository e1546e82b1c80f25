mod Following
mod Chaining
mod Feeding
pub mod ChainLaws
pub mod FollowLaws
pub mod ChainEnds
pub mod HeadLaws
pub mod DesignLaws
pub mod RunLists
pub mod RunsOnce
pub mod HeadPlaces
pub mod LastInputs
pub mod DesignChains
pub mod CellsAfter
pub mod DesignRuns
pub mod FedNumbers
pub mod IntoRuns
pub mod DesignFed
pub mod DesignLast
pub mod Holding
pub mod ReadsFed
