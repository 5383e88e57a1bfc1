-- What follows from the meaning of the gap table: slacks and limits first, then the calls.
pub mod Closing
pub mod Stages
pub mod Limits
pub mod Raising
pub mod Making
pub mod Right
pub mod Squares
pub mod Lifting
pub mod Keeping
pub mod Fixing
pub mod Meeting
pub mod Screens
