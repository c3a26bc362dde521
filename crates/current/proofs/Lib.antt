pub mod SquareLoad
pub mod Smallest
pub mod WholeRoot
pub mod GridCurrent
pub mod Metals
pub mod NoWorse
