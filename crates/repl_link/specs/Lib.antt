pub mod Answers
pub mod EndLaws
pub mod Items
pub mod MemEnds
pub mod MemLinks
