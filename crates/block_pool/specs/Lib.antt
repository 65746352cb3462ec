pub mod Code
pub mod Pool
pub mod Inside
pub mod Lending
