pub mod PlaceMarks
pub mod WordBits
