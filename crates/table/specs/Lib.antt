pub mod Words
pub mod Page
pub mod Slots
pub mod Stations
pub mod Empty
pub mod Tree
pub mod Given
