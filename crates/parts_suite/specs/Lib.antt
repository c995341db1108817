pub mod KeptActors
