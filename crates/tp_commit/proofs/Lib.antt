pub mod Placing
pub mod Ready
