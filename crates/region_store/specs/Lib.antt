pub mod Laid
pub mod Region
pub mod Joined
pub mod Counts
pub mod Inside
pub mod Merged
