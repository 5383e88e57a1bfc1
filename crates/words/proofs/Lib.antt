-- What the proofs of the words share.
pub mod Among
pub mod Groups
