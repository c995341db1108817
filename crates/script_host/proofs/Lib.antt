pub mod Chosen
pub mod Complete
pub mod Concluding
pub mod Hosts
pub mod OneKind
pub mod Small
pub mod SmallActors
