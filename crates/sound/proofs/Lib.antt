-- What the proofs of the test share.
pub mod Counted
pub mod Entering
pub mod Grounding
pub mod Settling
pub mod Columns
pub mod Answers
pub mod Opened
