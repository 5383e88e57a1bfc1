-- What the proofs share.
pub mod Long
pub mod Signed
