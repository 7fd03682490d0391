pub mod HeldCarried
pub mod Settled
