pub mod Programs
pub mod Told
