pub mod Counts
pub mod Telling
pub mod ReportCounts
pub mod SplitSize
