pub mod Packed
pub mod Pack
pub mod Inside
