pub mod Table
pub mod Build
pub mod Pair
pub mod Inside
