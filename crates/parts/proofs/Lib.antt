-- The laws of parting an input, for the proofs of this crate and of those above it.
pub mod Steps
pub mod Places
pub mod Keeping
pub mod Apart
pub mod Examples
