pub mod Findings
pub mod Parts
