pub mod Spans
pub mod Enclosed
pub mod Widths
pub mod Rise
