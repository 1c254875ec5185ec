pub mod Table
pub mod Files
pub mod Inside
