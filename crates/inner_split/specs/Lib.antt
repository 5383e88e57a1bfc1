-- What the contracts of Consequences cite.
pub mod Carries
pub mod Verdicts
pub mod Clauses
