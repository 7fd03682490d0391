pub mod Sorted
pub mod Matched
pub mod Stack
pub mod Going
pub mod Sweeping
pub mod Writing
pub mod Comparing
