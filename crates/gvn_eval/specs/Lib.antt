pub mod Steps
pub mod Codes
pub mod Sets
