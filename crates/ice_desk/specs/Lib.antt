pub mod Desk
pub mod Changes
pub mod Memory
pub mod Plan
pub mod Said
