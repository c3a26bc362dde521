mod RowParts
pub mod StoredCases
