pub mod Clue
pub mod Entries
pub mod Order
