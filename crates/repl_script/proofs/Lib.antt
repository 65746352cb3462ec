pub mod LineEnds
pub mod Sectioned
pub mod Regioned
pub mod Filled
pub mod LeftOut
