-- What the contracts of what a command does to the tables cite.
pub mod Moving
