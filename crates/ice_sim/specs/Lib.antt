pub mod ChipSlots
pub mod Layouts
pub mod ChipRuns
pub mod ConfiguredChips
pub mod ChipViews
