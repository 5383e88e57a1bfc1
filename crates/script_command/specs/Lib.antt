-- What the contracts of the carrier cite.
pub mod Carrying
