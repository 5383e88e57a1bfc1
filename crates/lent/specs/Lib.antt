-- What the contracts of the readers and of the calls cite.
pub mod Decides
pub mod Lent
pub mod Passing
pub mod Idle
pub mod Promises
