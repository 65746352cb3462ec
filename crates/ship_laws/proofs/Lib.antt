pub mod Walks
pub mod Rules
pub mod Streams
pub mod Stamped
pub mod Whole
