pub mod Split
pub mod LongRoot
