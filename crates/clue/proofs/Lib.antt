mod Numbers
mod Halfway
mod Turning
mod HintOutcomes
mod QuickOutcomes
pub mod Final
mod Stored
pub mod HintThenLookup
pub mod QuickThenLookup
pub mod LookupSettled
mod BuildOutcomes
pub mod BuildSettled
pub mod BuiltEntries
pub mod BuildThenHint
pub mod Refusals
pub mod Corners
