pub mod Series
pub mod Ends
pub mod Asked
pub mod Examples
