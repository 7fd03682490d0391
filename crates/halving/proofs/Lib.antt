pub mod Halving
pub mod Turning
pub mod Finding
