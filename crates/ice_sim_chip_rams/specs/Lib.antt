pub mod ClosedChips
