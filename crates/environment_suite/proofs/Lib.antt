pub mod DrivenRuns
pub mod EndedStrays
pub mod ThreadTests
