pub mod Telling
pub mod SiteLaws
pub mod Once
pub mod CardLaws
