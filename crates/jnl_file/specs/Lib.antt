pub mod Records
pub mod Journal
pub mod Reading
pub mod Begin
pub mod Errors
pub mod Generations
pub mod Newer
