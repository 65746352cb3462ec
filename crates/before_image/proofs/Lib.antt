pub mod Marks
pub mod OldestImages
