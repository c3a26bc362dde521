pub mod Table
mod WeightSpans
pub mod LineRoots
pub mod WeightWidths
pub mod WeightsEnclosed
