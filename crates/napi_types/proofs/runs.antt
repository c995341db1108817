-- On steps and runs: the cases of a step, and a run that is longer by one entry.
pub mod CallRooms
pub mod Chosen
pub mod Forms
pub mod HubEntries
pub mod HubsOfRuns
pub mod InPlace
pub mod LoopEnds
pub mod Nested
pub mod NewNumbers
pub mod Runs
pub mod SharedSteps
pub mod StandingDuties
pub mod StepCases
