-- What follows from what a command tells.
pub mod Indexing
