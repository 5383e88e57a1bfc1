-- What the chains' proofs share, and the laws of a walk along a chain.
pub mod Laws
pub mod Walk
pub mod Holding
pub mod Amid
pub mod Amending
pub mod Turning
pub mod Falling
