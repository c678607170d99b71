pub mod Laid
pub mod Decimal
pub mod Granted
