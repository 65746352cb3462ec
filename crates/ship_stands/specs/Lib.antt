pub mod Alike
pub mod Formed
pub mod StampLaws
pub mod Stories
pub mod Sites
