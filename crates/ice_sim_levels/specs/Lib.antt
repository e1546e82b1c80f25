pub mod Steps
pub mod LevelTexts
pub mod DriveTexts
