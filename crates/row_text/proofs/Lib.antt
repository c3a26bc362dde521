pub mod ShownLines
pub mod Fits
pub mod Texts
