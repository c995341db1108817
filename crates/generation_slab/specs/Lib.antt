pub mod HeldPlaces
pub mod Lends
pub mod SlotNumbers
