pub mod NoFault
pub mod Faultless
