pub mod Arguments
pub mod Command
pub mod BuildRequest
pub mod Requests
pub mod Reading
pub mod Views
pub mod Examples
