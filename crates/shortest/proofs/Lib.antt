-- What the proofs of this crate share: laws of ways and layers, of the least way, of the reason that it is, and of tests of cells.
pub mod Layers
pub mod Picking
pub mod Passing
pub mod Following
pub mod Advancing
pub mod Descending
pub mod Finishing
pub mod Tracing
pub mod Deepening
pub mod Reasons
pub mod Writing
pub mod Sparing
