pub mod Texts
pub mod Shown
pub mod Examples
