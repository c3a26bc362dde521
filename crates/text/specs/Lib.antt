pub mod Text
pub mod Value
pub mod Parts
pub mod Columns
