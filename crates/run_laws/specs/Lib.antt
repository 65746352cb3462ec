pub mod Leftovers
pub mod Epochs
pub mod Lost
pub mod Needs
