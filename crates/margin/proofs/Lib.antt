pub mod Voltages
pub mod Least
pub mod Share
pub mod RowVoltages
pub mod Right
