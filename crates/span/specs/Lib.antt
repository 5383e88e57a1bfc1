-- What the contract of the span cites.
pub mod Span
