pub mod Images
pub mod Undoing
