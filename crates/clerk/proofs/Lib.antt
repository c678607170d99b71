pub mod Cleared
pub mod Jobs
pub mod Slates
pub mod Kept
pub mod Going
pub mod Whole
pub mod Once
