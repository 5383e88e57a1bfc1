-- What the contracts of the values cite.
pub mod Pair
