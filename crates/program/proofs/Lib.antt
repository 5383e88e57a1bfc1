-- What the proofs of this crate share, and what follows from its contracts.
pub mod Bare
pub mod Fresh
pub mod Handing
pub mod Statuses
pub mod Whole
