pub mod AskLaws
pub mod Clapped
pub mod Tested
