pub mod Standing
pub mod TimeLaws
