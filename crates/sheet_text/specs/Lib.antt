-- From a sheet's bytes to its table (the scope, "The three texts").
pub mod Lines
pub mod Reading
pub mod Sheets
pub mod Verdict
pub mod Theorems
pub mod Internal
