pub mod Sockets
pub mod Pins
