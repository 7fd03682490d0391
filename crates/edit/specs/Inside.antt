-- What the crate's functions promise one another. No promise of an entry rests on how these are worded, only that of `edit_agreed`.
pub mod Local
pub mod Writing
