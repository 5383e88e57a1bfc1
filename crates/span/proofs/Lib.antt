-- What the proofs of the span share.
pub mod Steps
pub mod Laws
