pub mod Words
pub mod Machine
