pub mod Trying
pub mod Sound
pub mod Place
pub mod Found
pub mod Answers
