pub mod Counts
pub mod Number
