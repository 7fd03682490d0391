pub mod Reading
mod Fields
mod Judging
mod RowParse
pub mod Splitting
pub mod Pulling
pub mod Settled
pub mod PulledRows
