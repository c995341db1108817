pub mod AtPasses
pub mod ActorsAtTheLock
pub mod Environments
pub mod HandedBack
pub mod StartRoom
pub mod Crews
