pub mod Begun
mod Feeding
