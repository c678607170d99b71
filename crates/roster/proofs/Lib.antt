pub mod Numerals
pub mod Holders
pub mod Copied
pub mod Going
pub mod Joined
pub mod AllOnce
