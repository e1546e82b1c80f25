mod PortNames
pub mod Assigned
