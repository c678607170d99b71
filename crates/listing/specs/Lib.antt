pub mod Listed
pub mod Records
