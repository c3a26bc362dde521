pub mod Rules
pub mod Table
pub mod NumberSpans
pub mod NumberEnclosed
