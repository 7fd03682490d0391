pub mod Found
pub mod LookupOutcomes
mod Reaching
pub mod Lookups
pub mod HoldsUntil
pub mod BuildThenLookup
