pub mod Signed
pub mod Whole
pub mod Wide
pub mod Count
pub mod Every
