pub mod Operations
pub mod Root
pub mod Wide
pub mod Span
