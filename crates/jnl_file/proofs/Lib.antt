pub mod Zips
pub mod Steps
pub mod Others
pub mod Walk
pub mod Making
pub mod Newer
pub mod Outside
pub mod Chain
