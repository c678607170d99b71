pub mod Asked
pub mod Roster
pub mod EachOnce
