pub mod Fewest
pub mod Examples
