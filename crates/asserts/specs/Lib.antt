-- What the contracts of the adder cite.
pub mod One
pub mod Rows
pub mod Within
