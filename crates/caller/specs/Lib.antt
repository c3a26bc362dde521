pub mod Release
pub mod Later
pub mod Margins
