-- What the proofs of this crate share: lists made element by element, ways over one step and over all, the least amounts of the places passed, their slacks, whole numbers of 64 bits, rows compared,
-- what the public functions promise, and a cell as it is told.
pub mod Making
pub mod Staging
pub mod Passing
pub mod Lifting
pub mod Machine
pub mod Results
