pub mod Placed
mod Measuring
mod Summing
pub mod Cut
pub mod Old
pub mod Seams
pub mod Joined
pub mod Places
pub mod Tables
pub mod Inner
pub mod Own
pub mod InnerAnswer
pub mod Outer
pub mod Changed
pub mod Slice
pub mod Nearest
pub mod InnerPlaces
