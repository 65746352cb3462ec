pub mod Cells
pub mod Fronts
pub mod Laid
pub mod Nodes
pub mod Several
