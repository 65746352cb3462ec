pub mod Codes
pub mod Walks
pub mod Nodes
pub mod Overlaid
pub mod Lists
pub mod Together
pub mod Undoing
