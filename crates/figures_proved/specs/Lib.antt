pub mod Figure
pub mod Marked
pub mod Corners
