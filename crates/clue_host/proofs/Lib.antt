pub mod Settled
pub mod Unpacked
