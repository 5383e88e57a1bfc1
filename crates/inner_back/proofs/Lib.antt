-- Laws that the proofs of going back and of withdrawing share.
pub mod Passing
pub mod Replanning
pub mod Counting
pub mod Sifting
pub mod Loosening
pub mod Dropping
pub mod Unlinking
pub mod Newest
