pub mod BufferMaps
pub mod BufferSums
pub mod Bytes
pub mod Kept
pub mod Limits
pub mod Tickets
