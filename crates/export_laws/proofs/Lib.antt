-- Laws for walks by hand of thin calls.
pub mod Lasts
