-- Laws of planning a new rule.
pub mod Raising
pub mod Fitting
pub mod Answers
pub mod Holding
pub mod Extent
pub mod Linked
