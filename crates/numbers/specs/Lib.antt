pub mod Rows
pub mod Calls
pub mod Theorems
