pub mod Commands
pub mod Reads
pub mod Entries
pub mod Feeds
pub mod Places
