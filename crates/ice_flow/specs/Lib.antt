pub mod Command
pub mod Names
pub mod Plays
pub mod Ends
pub mod Run
pub mod Rows
