-- The law of inputs one after another.
pub mod Inputs
