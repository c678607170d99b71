pub mod Number
pub mod Job
