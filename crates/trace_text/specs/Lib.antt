pub mod SummaryCounts
pub mod Examples
pub mod LineEnds
pub mod Merging
pub mod SummaryLaws
pub mod Writing
