pub mod Mapped
pub mod SoundRows
pub mod Wired
pub mod SetBits
