pub mod TakingPart
pub mod GivenTurns
pub mod ListTurns
pub mod Stepping
