pub mod Looks
pub mod Told
pub mod RowLaws
pub mod OneText
mod OnBits
pub mod Places
