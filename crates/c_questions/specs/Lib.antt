pub mod Operations
pub mod Reports
