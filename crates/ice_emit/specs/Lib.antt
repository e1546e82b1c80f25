pub mod Views
pub mod Routed
pub mod Owners
pub mod Links
pub mod Holding
pub mod Placed
