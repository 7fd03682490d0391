pub mod Why
pub mod Text
