pub mod Rounded
pub mod Sizes
pub mod Loops
pub mod Width
pub mod Encloses
pub mod Span
