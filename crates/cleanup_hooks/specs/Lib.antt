pub mod AsyncRows
pub mod HookLists
pub mod KeptHooks
