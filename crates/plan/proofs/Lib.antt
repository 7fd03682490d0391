mod Rewriting
mod Joining
pub mod Edited
pub mod Found
mod OwnHop
mod RowWritten
mod NewTable
mod Splicing
pub mod Planning
