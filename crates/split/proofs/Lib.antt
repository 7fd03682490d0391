pub mod Halves
pub mod Covering
mod Filling
mod Opening
mod Labelling
pub mod Xor
pub mod HalvesXor
pub mod SplitThenLookup
mod Outcome
pub mod SplitThenRunLookup
pub mod Settled
