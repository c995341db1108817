pub mod HandleScopes
pub mod Marks
