pub mod Words
pub mod Memory
pub mod View
pub mod Verdict
pub mod Theorems
pub mod Internal
