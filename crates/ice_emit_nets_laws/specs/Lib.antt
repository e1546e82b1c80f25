pub mod Routing
pub mod Routable
pub mod Few
