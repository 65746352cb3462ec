mod Chains
mod Passing
mod ItemLists
mod Records
pub mod Stands
mod Cuts
mod Indexing
pub mod Thinning
pub mod Either
mod Forgetting
mod Readers
mod Cursors
mod SideBySide
mod Built
mod Syncing
mod Adding
mod Opened
mod Heads
pub mod Order
pub mod Rows
pub mod ReadParts
mod Formed
pub mod IndexLaws
pub mod Alone
pub mod Begun
pub mod Columns
pub mod Signed
pub mod Complete
pub mod Counting
pub mod Runs
pub mod PlacedParts
pub mod AmongLaws
pub mod Thin
pub mod JournalStands
