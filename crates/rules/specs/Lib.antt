pub mod Rules
pub mod Broken
