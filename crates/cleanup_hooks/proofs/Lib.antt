pub mod AsyncRows
pub mod FoundHooks
pub mod HookNumbers
pub mod Keys
pub mod KeptHooks
pub mod HookOrder
pub mod Turned
