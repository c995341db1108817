pub mod Numbers
pub mod Settling
pub mod Tied
pub mod Views
