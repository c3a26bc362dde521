pub mod Check
pub mod Current
pub mod Answer
pub mod Reported
pub mod Parts
pub mod Examples
