-- What the crate's functions promise one another. No promise to a caller rests on how these are worded.
pub mod Answering
