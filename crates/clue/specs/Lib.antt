pub mod Refusal
pub mod Build
pub mod Lookup
pub mod Quick
