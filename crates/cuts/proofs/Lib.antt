pub mod Parted
pub mod Steps
