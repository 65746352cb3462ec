pub mod Commands
pub mod Lines
pub mod Parts
pub mod Updaters
pub mod Sections
pub mod Script
pub mod Spelling
