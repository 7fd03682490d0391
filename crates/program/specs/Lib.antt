pub mod Program
pub mod Inside
