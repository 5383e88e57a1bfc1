-- What a text says: its tree, the reading of it, and what a command needs of the names and amounts that it says; then what the readers hand on.
pub mod Tree
pub mod Reading
pub mod Saying
pub mod Spelling
pub mod Heard
pub mod Parts
pub mod Rows
