-- What the contracts of the levels cite.
pub mod Levels
