pub mod Ends
pub mod Given
pub mod Reading
pub mod Standard
pub mod Words
pub mod Written
