pub mod ValueRows
pub mod Wraps
