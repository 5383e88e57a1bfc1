-- The laws behind Consequences: what gains tell, how verdicts are passed along a chain, and how they are listed.
pub mod Telling
pub mod Testing
pub mod Judging
pub mod Picking
pub mod Standing
