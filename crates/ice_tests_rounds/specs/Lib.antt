pub mod Hands
pub mod Routes
pub mod OneBlock
pub mod TwoNets
