-- What functions promise each other, in the crates that read. A reader need not believe it: docs/READING.md.
pub mod Moved
