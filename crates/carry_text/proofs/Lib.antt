pub mod CarriedTexts
