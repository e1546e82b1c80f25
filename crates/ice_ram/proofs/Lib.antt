pub mod Closings
pub mod PortLists
