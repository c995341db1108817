mod ActorPlaces
mod Endings
mod EnvironmentTurns
mod ListTurns
mod Openings
mod OrderedTurns
mod Resting
mod RoundSteps
