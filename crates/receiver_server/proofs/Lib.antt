pub mod Steps
pub mod Told
pub mod Knows
pub mod Kept
pub mod Pulled
