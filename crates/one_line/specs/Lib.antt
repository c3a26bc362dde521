pub mod Sheet
pub mod Reading
pub mod Answer
pub mod Examples
