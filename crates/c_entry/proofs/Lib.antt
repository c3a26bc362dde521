mod Answers
pub mod Range
pub mod Rooms
