pub mod Before
pub mod Holding
pub mod Laws
