pub mod KeepingHeaps
pub mod Numbering
pub mod SeenValues
pub mod ValueSteps
