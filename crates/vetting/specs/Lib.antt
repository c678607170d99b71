pub mod Test
pub mod Tested
