pub mod ProgramFits
mod ProgramLines
mod Answering
pub mod Settled
