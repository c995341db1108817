pub mod LookingTurns
pub mod ThreadsLeft
pub mod NoStops
pub mod LockedCallTurns
pub mod LockedWorkers
pub mod WorkTurns
pub mod OpenedLocks
pub mod SharedHubs
