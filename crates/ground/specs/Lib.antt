pub mod Numbers
pub mod Slots
pub mod Column
pub mod Stretch
