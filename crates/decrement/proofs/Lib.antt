pub mod Spans
pub mod Widths
pub mod Enclosed
pub mod Right
