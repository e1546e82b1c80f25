pub mod Counting
pub mod Placing
pub mod Rising
pub mod Growing
pub mod Bounding
pub mod Nearest
pub mod Drawing
pub mod Hopping
