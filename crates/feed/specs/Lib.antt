pub mod RowNumber
pub mod Counts
pub mod Import
pub mod LastRow
pub mod Inside
