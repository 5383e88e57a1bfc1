-- What the proofs of the adder share.
pub mod Reach
pub mod Linking
pub mod Answering
pub mod Going
pub mod Rows
