-- What the proofs share.
pub mod Telling
pub mod Keeping
pub mod Determined
pub mod Mixing
pub mod Possible
pub mod ByCalls
pub mod Beside
