pub mod Tails
pub mod TailLaws
pub mod Tailable
pub mod Ends
pub mod TailedLaws
