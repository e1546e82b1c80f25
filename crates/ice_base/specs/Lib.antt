pub mod Text
pub mod Lines
pub mod Cursors
pub mod Places
pub mod Lists
pub mod Keys
