-- What the ring check's contracts cite.
pub mod Closing
