pub mod Decided
pub mod Truth
mod HostBits
pub mod Clue
pub mod Keys
pub mod Places
pub mod Rows
pub mod Cut
mod Around
mod Extension
pub mod EntryTest
pub mod KeyOrder
mod Least
pub mod Clues
mod Searching
mod Along
pub mod Writing
