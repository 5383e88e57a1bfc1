-- What the chains' contracts cite.
pub mod Chains
pub mod Links
pub mod Walks
pub mod Held
