pub mod SameParts
pub mod Right
pub mod NoWorse
pub mod StaysSafe
pub mod LessSoil
