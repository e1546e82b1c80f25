pub mod Cut
pub mod SoFar
pub mod Held
pub mod Stands
