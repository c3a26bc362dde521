mod NamesLine
mod Answers
pub mod ReadsBack
pub mod RoundTrip
