-- The laws of parting a text into scripts, for the proofs of this crate and of those above it.
pub mod Places
pub mod Joined
pub mod Examples
