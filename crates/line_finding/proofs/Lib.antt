pub mod Keys
pub mod LineChecked
pub mod LineFound
