pub mod Updates
pub mod Extracts
pub mod Lines
pub mod Values
