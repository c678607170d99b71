pub mod Enrol
pub mod Within
