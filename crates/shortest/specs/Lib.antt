-- Walks of held rules and the layers of what they spend; then what the functions promise, and the methods of a search.
pub mod Walks
pub mod Layers
pub mod Clauses
pub mod Searching
