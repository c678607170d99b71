pub mod Every
pub mod Words
pub mod Gathered
pub mod Entries
pub mod Marked
pub mod Tallied
pub mod Where
