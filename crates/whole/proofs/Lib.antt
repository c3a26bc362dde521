pub mod Signed
pub mod Bits
pub mod Choice
pub mod BelowZero
pub mod Rounding
pub mod Divisors
pub mod WideProduct
pub mod Count
