-- What the contracts of Add and Trial cite.
pub mod Planning
pub mod Lending
pub mod Fit
pub mod Kept
