-- On the environment: what its calls and the ends of its frames keep.
pub mod AnswersKeep
pub mod AsyncHooked
pub mod Cases
pub mod Changed
pub mod Effects
pub mod FrameChanges
pub mod FrameEnds
pub mod Handed
pub mod HookedBooks
pub mod HookedSteps
pub mod MadeTickets
pub mod Owners
pub mod Promised
pub mod Registrations
pub mod StandingFrames
pub mod Told
pub mod TornBooks
