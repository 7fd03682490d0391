pub mod Middle
pub mod Seams
pub mod Own
