pub mod EndedActors
pub mod LoadLists
pub mod Loading
pub mod Ran
pub mod SmallLoad
