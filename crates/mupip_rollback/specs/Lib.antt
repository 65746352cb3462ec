pub mod Answers
pub mod Cutting
pub mod Errors
pub mod Preparing
pub mod Rolling
pub mod Setting
