pub mod Prepared
pub mod PreparedLaws
