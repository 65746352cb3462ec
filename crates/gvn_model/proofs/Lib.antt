mod Begun
pub mod Places
