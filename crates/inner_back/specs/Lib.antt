-- What the contracts of going back and of withdrawing cite.
pub mod Replan
pub mod Freeing
