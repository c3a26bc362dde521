pub mod Bracket
pub mod Turns
