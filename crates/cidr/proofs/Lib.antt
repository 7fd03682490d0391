pub mod Prefix
pub mod Covers
pub mod Turn
pub mod Bits
