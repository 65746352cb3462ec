pub mod Epochs
pub mod Forward
pub mod Images
pub mod Opening
pub mod Replaying
pub mod Signs
