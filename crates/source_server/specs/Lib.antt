pub mod Sources
pub mod Framing
