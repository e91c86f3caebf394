-- What a function reads from a reader.
pub mod Internal
