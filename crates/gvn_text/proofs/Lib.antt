pub mod LevelLaws
pub mod Answered
