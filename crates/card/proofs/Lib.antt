pub mod Lines
pub mod Newcomer
