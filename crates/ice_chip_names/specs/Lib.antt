pub mod Names
pub mod NameReaders
pub mod RamNames
pub mod WireNames
pub mod FunctionNames
pub mod FirstBytes
