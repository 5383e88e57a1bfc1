-- The gap table, in reading order: what it says, what each call does with it, what the calls promise over lent lists, and sequences of calls; Slacks is what the contracts of inner functions alone cite.
pub mod Gaps
pub mod Beside
pub mod Promises
pub mod Runs
pub mod Slacks
