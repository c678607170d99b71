pub mod Calls
pub mod Demands
pub mod Newcomer
pub mod Lent
pub mod Carding
pub mod Alone
pub mod Sharp
pub mod PassedOn
