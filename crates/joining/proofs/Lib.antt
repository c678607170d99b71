pub mod EnrolFree
pub mod EnrolNode
pub mod EnrolTree
pub mod EnrolRoot
pub mod Enrolled
pub mod Settling
pub mod Inserting
pub mod Raising
