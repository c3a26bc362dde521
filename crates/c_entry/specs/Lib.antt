pub mod Buffer
pub mod Range
