mod LineChanges
mod Places
mod Converting
pub mod Soundness
pub mod SoundCases
pub mod Restored
