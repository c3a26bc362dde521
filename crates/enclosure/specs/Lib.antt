pub mod Enclosure
pub mod SquareRoot
pub mod Pi
