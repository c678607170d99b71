pub mod CallTests
pub mod Refused
