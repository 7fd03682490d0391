pub mod Bytes
pub mod Lookup
pub mod Inside
