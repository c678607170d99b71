pub mod Digits
pub mod Jobs
