-- The meaning, in reading order; Reckoning is what inner contracts alone cite. What follows from it stands in proofs/.
pub mod Bounds
pub mod Refusals
pub mod Rules
pub mod Tables
pub mod Promise
pub mod Calls
pub mod Runs
pub mod Screen
pub mod Cases
pub mod Reckoning
