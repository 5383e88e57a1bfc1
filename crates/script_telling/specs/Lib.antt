-- What the contracts of what a command tells cite.
pub mod Telling
