pub mod Rects
pub mod AsNear
pub mod Sites
