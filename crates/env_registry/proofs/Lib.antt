pub mod Agreeing
pub mod Keeping
pub mod SettledBooks
pub mod FreedBuffers
pub mod FreedPromises
pub mod Withdrawn
