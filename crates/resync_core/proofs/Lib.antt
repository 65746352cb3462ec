mod Fronts
mod Places
pub mod BegunReigns
mod HistoryLaws
mod Facts
mod Moves
mod Followers
mod Steps
mod Hardened
pub mod SharedFronts
mod Crashing
mod Resting
mod SingleSteps
mod RowSteps
mod Walking
