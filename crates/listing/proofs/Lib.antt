pub mod Laid
pub mod Outcome
