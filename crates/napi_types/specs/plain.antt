-- Plain data: lists and numbers, entries and replies, what is known of a call by itself, the ends of the outside.
pub mod Arguments
pub mod CallFacts
pub mod CallKinds
pub mod Counted
pub mod DutyCalls
pub mod Edge
pub mod Entries
pub mod Guards
pub mod Lists
pub mod Numbers
pub mod Phases
pub mod Replies
pub mod Room
pub mod SeenLines
pub mod Texts
pub mod Weave
