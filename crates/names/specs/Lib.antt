-- What the contracts of the names cite.
pub mod Names
