pub mod Below
pub mod Listing
pub mod Passed
pub mod Testing
