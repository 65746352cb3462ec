pub mod ItemLists
pub mod Records
