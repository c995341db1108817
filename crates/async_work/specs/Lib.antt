pub mod Draining
pub mod Executing
pub mod KeptPool
pub mod Picking
pub mod Queue
pub mod WorkPlaces
pub mod WorkStates
