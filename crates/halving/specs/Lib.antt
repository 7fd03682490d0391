pub mod Halving
pub mod Narrowed
pub mod Ended
