-- What the proofs of the writers share, and the laws of bytes written over a list and of decimal digits.
pub mod Laws
pub mod Decimal
