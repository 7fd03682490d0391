pub mod Row
pub mod WellFormed
pub mod Plain
pub mod Change
pub mod Lookup
pub mod Place
