pub mod Truth
pub mod Map
pub mod Ascends
pub mod Falls
pub mod Moves
pub mod Slots
pub mod Numbers
pub mod Lower
