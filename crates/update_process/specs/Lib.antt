pub mod Copies
pub mod Updates
