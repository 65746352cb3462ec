pub mod Errors
pub mod Files
pub mod Flushed
pub mod Kept
pub mod Logged
pub mod Taken
