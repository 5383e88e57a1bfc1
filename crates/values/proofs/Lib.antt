-- What the proofs of the values share.
pub mod Going
pub mod Rows
pub mod Wrote
