pub mod FreeNames
pub mod HeaderReading
pub mod HeaderAccepted
pub mod NameIndices
pub mod NameTable
pub mod NamesRead
pub mod NamesStand
