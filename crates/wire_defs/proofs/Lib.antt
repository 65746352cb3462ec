pub mod PoolWords
pub mod Ends
pub mod Resumed
