pub mod Refusals
pub mod Cases
pub mod Told
pub mod Carding
