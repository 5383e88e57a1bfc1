-- Laws of the levels of a script.
pub mod Pushing
pub mod Popping
pub mod Laws
pub mod Ordering
