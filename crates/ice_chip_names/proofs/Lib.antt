pub mod Prefixes
pub mod RamNamesRead
pub mod WireNamesRead
mod FunctionNamesRead
mod FirstBytes
