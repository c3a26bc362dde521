pub mod Same
pub mod RowSums
pub mod OneRowMore
pub mod StandsOnce
pub mod Totals
pub mod WorstSeason
