pub mod Front
pub mod Where
pub mod Told
pub mod Sites
pub mod Cards
