pub mod Smallest
mod LongRoot
mod RoundedUp
