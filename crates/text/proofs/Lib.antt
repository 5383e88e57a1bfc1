-- What the proofs of the token reader share.
pub mod Reading
pub mod Classes
pub mod Runs
pub mod Comments
pub mod Standing
pub mod Words
pub mod Numbers
pub mod Equal
pub mod Extents
pub mod Pieces
pub mod Tokens
