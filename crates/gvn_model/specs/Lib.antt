pub mod Reigns
pub mod Regions
pub mod Entries
pub mod Items
pub mod Numbered
pub mod Jobs
pub mod Queues
