-- Laws that the proofs of the script calls share.
pub mod Answers
pub mod Commanding
