pub mod Summary
pub mod Meaning
pub mod Sums
pub mod Examples
