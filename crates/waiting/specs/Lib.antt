-- What the contracts of the waiting steps cite.
pub mod Places
pub mod Waiting
