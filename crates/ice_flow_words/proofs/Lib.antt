pub mod Arguments
pub mod Kept
pub mod Numbers
pub mod Provided
pub mod Taking
pub mod Worked
