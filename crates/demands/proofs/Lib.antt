pub mod Orders
pub mod First
pub mod One
pub mod Two
pub mod Three
pub mod Whole
