pub mod Values
pub mod Errors
pub mod Fields
pub mod Order
pub mod Reading
pub mod Walks
pub mod Instance
