-- Environment and hub together: the next event, a step, and runs.
pub mod Begins
pub mod CallRoom
pub mod Choice
pub mod InPlace
pub mod Loop
pub mod LoopEnds
pub mod Machine
pub mod Parting
pub mod Plan
pub mod Run
pub mod Setting
pub mod Step
pub mod Teardown
