pub mod Entries
pub mod Ends
