pub mod Samples
pub mod Standing
pub mod Made
pub mod Command
pub mod SampleRows
