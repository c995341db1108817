pub mod EscapeRefusals
pub mod Escapes
pub mod Gives
pub mod HandleNumbers
pub mod HandlePlaces
pub mod Lookups
pub mod Marks
pub mod Stacks
