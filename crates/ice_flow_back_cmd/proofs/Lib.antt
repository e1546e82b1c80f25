mod Written
mod PortNames
mod Making
pub mod BackLaws
mod PlainPads
