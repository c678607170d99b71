pub mod Axis
pub mod Machine
