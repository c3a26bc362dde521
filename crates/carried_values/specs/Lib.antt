pub mod Values
pub mod Changes
pub mod Parts
pub mod Examples
