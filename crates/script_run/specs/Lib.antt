pub mod Load
pub mod Loading
pub mod Runs
pub mod ScriptActors
