pub mod Parts
pub mod Kept
pub mod MemSteps
pub mod Tables
pub mod Inserts
pub mod Crashes
pub mod MemCalls
