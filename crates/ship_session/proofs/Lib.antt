pub mod Behind
pub mod Grown
pub mod Last
pub mod Single
pub mod Order
mod Matched
