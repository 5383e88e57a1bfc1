-- What the readers' proofs share.
pub mod Amounts
pub mod Watching
pub mod Cells
