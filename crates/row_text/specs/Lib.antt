pub mod Verdict
pub mod Rows
pub mod Margins
pub mod Shown
pub mod Room
pub mod Examples
