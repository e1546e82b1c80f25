pub mod Length
pub mod Wiring
pub mod Noting
pub mod Board
