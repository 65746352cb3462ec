pub mod Pairs
pub mod Tagged
pub mod Chains
pub mod Pushes
