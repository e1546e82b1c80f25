pub mod Congestion
pub mod Moves
pub mod Routes
pub mod Machine
pub mod Moments
pub mod Program
