mod Bodies
mod RegionLists
mod Putting
mod Histories
mod Orders
mod Scanning
mod Bounds
mod Zips
mod Passing
mod States
mod Sizes
pub mod Mores
mod Outside
mod Making
mod Logs
