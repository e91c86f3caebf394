-- What functions promise each other, in this crate and to those above it. A reader need not believe it:
-- docs/READING.md.
pub mod Readers
pub mod Walk
pub mod Smallest
pub mod Stages
