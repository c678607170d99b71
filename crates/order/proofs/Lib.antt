pub mod Least
pub mod Lists
pub mod Marks
pub mod Order
pub mod Pairwise
pub mod Perm
pub mod Ranks
