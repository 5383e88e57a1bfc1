-- What the contracts of the token reader cite.
pub mod Lexicon
pub mod Table
pub mod Numbered
