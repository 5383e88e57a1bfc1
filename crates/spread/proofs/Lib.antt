-- The laws of a spread, and what it is used for.
pub mod Places
pub mod Collecting
pub mod Raising
pub mod Settling
pub mod Walking
pub mod Turning
pub mod Ends
pub mod Parts
pub mod Ringing
pub mod Uses
