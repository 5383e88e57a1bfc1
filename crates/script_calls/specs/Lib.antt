-- What the contracts of the script calls cite beside their meanings.
pub mod Testing
