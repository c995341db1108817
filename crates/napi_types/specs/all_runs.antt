-- What holds of all runs.
pub mod AbandonedHooks
pub mod AcceptedCalls
pub mod BufferLives
pub mod Cancels
pub mod CollectionLaw
pub mod Counts
pub mod DutyPlaces
pub mod Goings
pub mod HubLaws
pub mod ItemOrder
pub mod Joined
pub mod Laws
pub mod OnceLaws
pub mod Order
pub mod SettledPromises
pub mod SharedBytes
pub mod TurnsInOrder
