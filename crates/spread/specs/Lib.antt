-- What the contracts of the spread and of the ring cite, in reading order.
pub mod Least
pub mod Trace
pub mod Ground
pub mod State
pub mod Relax
pub mod Clauses
pub mod Ring
