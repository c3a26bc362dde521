pub mod Surface
pub mod Ends
pub mod Numbers
pub mod Working
pub mod Examples
