-- The floors, from the ground up. A file uses its own floor and those below.
pub mod plain
pub mod parts
pub mod scripts
pub mod environment
pub mod hub
pub mod runs
pub mod all_runs
