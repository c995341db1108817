pub mod KeptBook
pub mod Lowest
pub mod RowMoves
pub mod Taken
pub mod TicketHeaps
