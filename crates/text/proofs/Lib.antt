-- The laws of the forms, for the proofs of this crate and of those that read or print with it.
pub mod Readings
pub mod Places
pub mod Numbers
pub mod Decimals
pub mod Sets
pub mod Fields
pub mod Lines
pub mod Examples
pub mod Writings
