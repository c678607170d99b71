pub mod Shares
pub mod Held
pub mod Chosen
pub mod Counts
pub mod Items
pub mod Frame
pub mod Flat
pub mod Planting
