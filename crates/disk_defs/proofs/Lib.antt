pub mod Told
pub mod Moments
pub mod Frames
pub mod Texts
pub mod Walks
mod Vectors
