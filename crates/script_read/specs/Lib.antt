pub mod Lengths
pub mod ReadLists
pub mod Reads
pub mod Table
