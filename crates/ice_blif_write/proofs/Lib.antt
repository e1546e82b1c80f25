mod WrittenLines
pub mod NamesRead
mod GateRead
mod Reading
mod DigitsRead
mod CellRead
mod Rows
mod CoverRead
mod PortsRead
mod CellsRead
mod LineWords
mod TextRead
mod Joining
mod Plain
