pub mod ValuesReading
pub mod Arranging
