pub mod Meaning
pub mod Walk
pub mod Query
pub mod Rows
pub mod Passable
