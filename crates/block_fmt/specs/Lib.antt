pub mod Code
pub mod Cells
pub mod Read
pub mod Inside
