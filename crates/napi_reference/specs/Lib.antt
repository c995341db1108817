pub mod Freed
pub mod ReferencePlaces
pub mod ReferenceRows
