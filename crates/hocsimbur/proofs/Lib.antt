pub mod Answers
pub mod NoWorse
pub mod LessFault
pub mod LessSoil
pub mod HeadroomRows
pub mod LineMargins
