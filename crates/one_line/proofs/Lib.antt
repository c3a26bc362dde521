mod OneLines
pub mod Causes
