pub mod Sheet
pub mod Padding
pub mod Meaning
pub mod Theorems
pub mod Internal
