-- What the public calls' contracts cite beside the promises.
pub mod Entry
pub mod Yard
pub mod Part
