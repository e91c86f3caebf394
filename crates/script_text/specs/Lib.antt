-- From a script's bytes to its command and its code (the scope, "The three texts").
pub mod Counts
pub mod Bytes
pub mod Reading
pub mod Script
pub mod Theorems
pub mod Internal
