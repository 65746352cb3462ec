pub mod Packed
pub mod Addressed
pub mod Whole
pub mod Ring
pub mod Told
