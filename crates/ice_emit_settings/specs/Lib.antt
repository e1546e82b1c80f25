pub mod Views
pub mod Cells
pub mod Ports
pub mod Enables
pub mod Buffers
pub mod Rams
