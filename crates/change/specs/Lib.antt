pub mod Choose
pub mod Share
pub mod Planted
