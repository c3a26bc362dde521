pub mod Words
pub mod LineFields
pub mod Refusals
