pub mod Rows
pub mod RowNumber
pub mod Reading
pub mod Pull
pub mod Inside
