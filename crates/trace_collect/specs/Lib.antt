pub mod Collects
pub mod MarkedValues
