mod StationSums
mod Tables
mod Answers
pub mod Within
