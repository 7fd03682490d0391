pub mod Edited
pub mod Found
pub mod Splice
pub mod Joints
pub mod Plan
