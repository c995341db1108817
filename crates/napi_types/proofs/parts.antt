-- On the parts: the book and its tickets, attachments, children, what is reached.
pub mod AttachedTickets
pub mod BookSteps
pub mod Books
pub mod ChildParts
pub mod Moved
pub mod Moves
pub mod Reaching
pub mod PlacedBytes
