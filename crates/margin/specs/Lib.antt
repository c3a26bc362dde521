pub mod Margin
pub mod Meaning
pub mod Examples
