pub mod Limits
pub mod Refusal
pub mod Sheet
pub mod Read
pub mod Accepted
pub mod Wrong
