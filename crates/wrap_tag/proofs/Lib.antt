pub mod Dues
pub mod ByValue
pub mod ByTicket
pub mod AttachingRows
pub mod FreeingRows
