-- What functions promise each other, in this crate and to those above it. A reader need not believe it:
-- docs/READING.md.
pub mod Tables
pub mod Growth
pub mod Writers
pub mod TypeTest
pub mod Powers
pub mod Starts
