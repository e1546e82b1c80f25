pub mod Pins
pub mod Lists
mod IoTiles
pub mod Sockets
pub mod Places
pub mod Controls
pub mod Ends
pub mod Roots
pub mod Reading
pub mod Edges
pub mod Growing
pub mod Trees
pub mod Linked
pub mod Wanted
pub mod Rows
mod Targets
mod Ending
mod Sinks
mod Apart
mod Asking
pub mod Pinned
