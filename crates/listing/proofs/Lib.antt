pub mod Programs
pub mod Telling
