pub mod RowWords
pub mod Cuts
pub mod Starts
pub mod RamLines
pub mod Firsts
pub mod Unclosed
mod RamClockLists
