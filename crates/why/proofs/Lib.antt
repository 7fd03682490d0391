mod Places
mod Walking
pub mod Listed
pub mod ReasonTrue
mod Outcome
pub mod WhyThenLookup
pub mod Settled
