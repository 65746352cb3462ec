pub mod Finding
pub mod Mapping
