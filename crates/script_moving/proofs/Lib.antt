-- What is known of the tables after a command.
pub mod Laws
