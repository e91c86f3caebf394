pub mod Theorems
pub mod Verdict
pub mod Internal
