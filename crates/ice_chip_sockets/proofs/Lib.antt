mod PinLists
mod RamWireNames
pub mod SiteFacts
pub mod SocketWires
pub mod SocketPins
