pub mod SearchTexts
