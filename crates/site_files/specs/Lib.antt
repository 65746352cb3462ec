pub mod Errors
pub mod Loading
pub mod Past
pub mod Reading
