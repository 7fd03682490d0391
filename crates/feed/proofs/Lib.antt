pub mod Counting
mod RowCount
mod OneRow
pub mod Importing
pub mod LastRow
mod Taking
mod Filling
pub mod Outcome
pub mod Settled
pub mod PulledNumbers
pub mod Promise
pub mod TallyPromise
