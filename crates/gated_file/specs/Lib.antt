pub mod State
pub mod Gated
pub mod Reading
pub mod Begin
