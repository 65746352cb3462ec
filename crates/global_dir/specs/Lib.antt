pub mod Texts
pub mod Directory
