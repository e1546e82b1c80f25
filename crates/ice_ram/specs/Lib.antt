pub mod Ram
pub mod Ports
pub mod Closing
pub mod Views
pub mod Laws
