pub mod FunctionReplies
pub mod HubParts
pub mod HubProgress
pub mod HubRows
pub mod HubStates
pub mod HubTries
pub mod KeptHubs
pub mod SharedTries
