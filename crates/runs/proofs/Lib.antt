pub mod Table
pub mod WholeList
pub mod TableOutcomes
pub mod Settled
pub mod Agreed
