pub mod Edit
pub mod Inside
