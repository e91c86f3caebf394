-- The laws of rounds, for the proofs of this crate and of those above it.
pub mod LowerLaws
pub mod PlaceLaws
pub mod RunLaws
pub mod StageLaws
