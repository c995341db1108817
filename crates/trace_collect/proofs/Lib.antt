pub mod CollectCallers
pub mod Distinct
pub mod MarkMembers
pub mod Marking
pub mod Reached
pub mod Unmarked
pub mod Unreached
