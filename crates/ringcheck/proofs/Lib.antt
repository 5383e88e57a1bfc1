-- What the ring check's proofs share.
pub mod Flags
pub mod Windows
pub mod Reading
pub mod Starting
