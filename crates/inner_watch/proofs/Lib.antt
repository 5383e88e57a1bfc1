-- Laws that the proofs of the inner calls share.
pub mod Equal
pub mod Verdict
pub mod Clearing
