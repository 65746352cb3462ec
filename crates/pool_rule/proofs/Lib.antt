pub mod Each
pub mod Whole
pub mod Keeps
