mod RowWrites
mod TileWrites
pub mod Forms
mod OtherKinds
pub mod TileKinds
mod FunctionBits
