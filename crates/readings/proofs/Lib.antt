pub mod Pairs
pub mod Bounds
pub mod Gathering
pub mod Spans
pub mod Extremes
pub mod Enclosed
pub mod Right
pub mod Extent
mod Searching
