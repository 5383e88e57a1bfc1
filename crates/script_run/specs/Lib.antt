-- What the contracts of the whole script cite.
pub mod Reaching
pub mod Stepping
