pub mod Reply
pub mod Stations
