pub mod Fronts
pub mod Journals
pub mod Turns
pub mod Rounds
pub mod Entering
pub mod Logging
