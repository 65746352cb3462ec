pub mod Counts
pub mod Owns
pub mod Stays
pub mod Written
pub mod Cut
pub mod Marked
pub mod Needed
pub mod Lost
