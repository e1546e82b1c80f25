pub mod AreRuns
pub mod FormedBefore
pub mod RunLaws
