pub mod Cover
pub mod Nodes
pub mod Parts
pub mod Placed
pub mod Slots
