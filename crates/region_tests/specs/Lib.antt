pub mod Logged
pub mod Nodeless
