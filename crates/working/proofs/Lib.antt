pub mod Layer
pub mod Leasts
pub mod Widths
pub mod Right
