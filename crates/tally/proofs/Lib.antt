pub mod Faults
pub mod Counts
pub mod StationLines
pub mod Members
