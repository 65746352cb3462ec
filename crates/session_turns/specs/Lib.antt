pub mod Following
pub mod Sessions
pub mod Turns
pub mod Progress
pub mod Cuts
