-- What the contracts and the proofs of the words cite.
pub mod ByLength
pub mod Words
