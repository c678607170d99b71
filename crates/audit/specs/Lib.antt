pub mod Check
pub mod Seen
pub mod Asked
pub mod Where
