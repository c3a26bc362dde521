pub mod Answer
pub mod Table
pub mod Accepted
pub mod Examples
