pub mod Entries
pub mod Tables
pub mod Answers
pub mod CountedEntries
pub mod StationMeaning
pub mod ReleasedStations
