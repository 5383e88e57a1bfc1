-- The laws of the waiting steps.
pub mod Places
pub mod Parts
pub mod Leaving
