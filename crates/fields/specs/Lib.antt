pub mod Fields
pub mod Listed
pub mod Refusal
pub mod Examples
