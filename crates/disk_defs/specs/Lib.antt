pub mod Disk
pub mod Frames
pub mod Gates
pub mod OutsideGates
