-- What the contracts cite beside the promises.
pub mod Records
pub mod Mixed
pub mod ByCalls
pub mod MixedBeside
