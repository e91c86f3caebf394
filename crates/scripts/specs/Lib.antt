pub mod Parting
pub mod Theorems
pub mod Internal
