pub mod Asked
pub mod Headline
pub mod Made
pub mod Command
pub mod BackRows
