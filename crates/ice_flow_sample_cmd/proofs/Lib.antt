mod Refusing
mod Standing
mod Telling
pub mod SampleLaws
