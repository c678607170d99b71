pub mod Inserted
pub mod CardNames
pub mod Marking
pub mod Standing
pub mod Taking
