-- What the functions promise: of squares of slacks, of single cells, and of the gap table.
pub mod Squares
pub mod Cells
pub mod Tables
