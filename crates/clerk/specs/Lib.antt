pub mod Sheet
pub mod Running
