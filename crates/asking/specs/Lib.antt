pub mod Slate
pub mod Asked
