pub mod ByTheGrammar
pub mod States
pub mod Unquoting
