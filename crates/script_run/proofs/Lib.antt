-- What the proofs of the whole script share.
pub mod Naming
pub mod Room
pub mod Beginning
pub mod Stepping
pub mod Reaching
pub mod Printing
pub mod Fresh
pub mod Parts
