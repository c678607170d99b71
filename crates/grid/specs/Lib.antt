pub mod Place
pub mod AsNear
pub mod Corner
pub mod Site
