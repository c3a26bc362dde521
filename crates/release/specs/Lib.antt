pub mod Licence
pub mod Earlier
pub mod Entry
pub mod Answer
pub mod Meaning
pub mod Examples
