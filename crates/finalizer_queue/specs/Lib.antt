pub mod KeptBook
pub mod TicketRows
