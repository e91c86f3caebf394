-- What functions promise each other, in this crate and to those above it. A reader need not believe it:
-- docs/READING.md.
pub mod Cells
pub mod Records
pub mod Given
pub mod Nodes
pub mod Post
