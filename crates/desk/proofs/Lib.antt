-- Laws that the proofs of the public calls share.
pub mod Entering
pub mod Gapping
pub mod Parts
