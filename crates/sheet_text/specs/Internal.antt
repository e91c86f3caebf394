-- What functions promise each other, in this crate and to those above it. A reader need not believe it:
-- docs/READING.md.
pub mod Placed
pub mod Building
pub mod Decoded
pub mod Drafts
pub mod Repeats
