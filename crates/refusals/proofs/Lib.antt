pub mod Given
pub mod CardOrder
pub mod CallNumbers
pub mod CallOrder
pub mod QueryOrder
pub mod TellsAll
