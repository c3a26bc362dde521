pub mod Lines
pub mod Fault
pub mod Tally
