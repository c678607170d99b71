pub mod Started
pub mod Printed
pub mod Whole
