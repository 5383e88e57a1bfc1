-- What the proofs of the names share, and the laws of names found.
pub mod Hashing
pub mod Indexing
pub mod Links
pub mod Shelves
pub mod Unique
