-- What the parts of a command come to.
pub mod Laying
pub mod Composing
pub mod Stopping
pub mod Granting
pub mod Closing
