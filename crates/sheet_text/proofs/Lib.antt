pub mod Judged
pub mod TableRows
pub mod SheetTexts
pub mod Texts
pub mod StationTexts
