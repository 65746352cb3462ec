pub mod Pooling
pub mod Holds
