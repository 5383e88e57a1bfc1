-- What the inner calls' contracts cite.
pub mod Cleared
