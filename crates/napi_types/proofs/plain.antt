-- On plain data: what is known of a call by itself, finite maps and their records, lists, conditions, the weave of two lists.
pub mod CallFacts
pub mod Conditions
pub mod Counted
pub mod Found
pub mod FoundInMaps
pub mod Issued
pub mod Lists
pub mod Maps
pub mod Options
pub mod Tallies
pub mod Weaves
