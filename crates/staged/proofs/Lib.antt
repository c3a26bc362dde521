pub mod Checks
pub mod GridCurrent
pub mod SoundTest
pub mod Reporting
