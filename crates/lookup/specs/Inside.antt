-- What functions of this crate promise one another; no public promise cites it.
-- Assumes nothing.
pub mod Reached
