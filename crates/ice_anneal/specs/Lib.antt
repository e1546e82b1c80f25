pub mod Least
pub mod Full
pub mod Order
pub mod Table
