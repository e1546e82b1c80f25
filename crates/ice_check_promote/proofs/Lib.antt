pub mod Buffers
pub mod NewDrivers
mod NewValues
mod NewSteps
pub mod Clocks
pub mod Behind
mod Cycles
pub mod Passing
mod PassingSteps
mod PassingSound
pub mod Buffered
mod NewFormed
mod NewSound
mod PromotionExamples
mod Counted
mod Chosen
mod Redirected
mod Filled
mod NewNames
pub mod Unpromoted
pub mod PlainNames
