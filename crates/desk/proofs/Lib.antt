-- The laws of what show prints.
pub mod Fields
pub mod Outputs
pub mod Givens
pub mod Shows
pub mod Exact
pub mod Orders
pub mod Kept
pub mod Parts
