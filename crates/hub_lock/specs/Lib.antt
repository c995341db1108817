pub mod SeenTurns
pub mod LockedTurns
pub mod LockedCalls
pub mod Working
pub mod LockedEnds
