pub mod Adding
pub mod SummaryCounts
pub mod LineEnds
mod Decimals
mod Merging
pub mod Weaving
