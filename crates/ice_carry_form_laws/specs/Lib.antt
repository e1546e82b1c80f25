pub mod FormLaws
pub mod Constants
pub mod Few
