pub mod CountingReferences
pub mod Emptying
pub mod KeepingReferences
pub mod ReferenceChanges
pub mod ReferenceNumbers
pub mod Searches
pub mod Strong
