pub mod Histories
pub mod Sites
pub mod Events
pub mod Lineage
pub mod Outcomes
pub mod Runs
pub mod Samples
