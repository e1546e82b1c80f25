pub mod IsPacked
pub mod PackLaws
