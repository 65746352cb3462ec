pub mod Mapped
pub mod Histories
