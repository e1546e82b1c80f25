pub mod Text
pub mod RoundTrip
pub mod Writing
