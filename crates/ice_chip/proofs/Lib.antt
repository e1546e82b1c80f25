pub mod Entries
pub mod GroupRows
mod Firsts
pub mod Keys
pub mod SameKinds
mod Listing
mod NamePlaces
mod NamedRows
mod Numbering
mod Different
mod Readers
mod RowPlaces
mod FirstOfAll
pub mod EachNumber
mod NeededNames
mod LackingLaws
pub mod Passing
