pub mod Answer
pub mod Room
pub mod Place
pub mod Told
pub mod Examples
