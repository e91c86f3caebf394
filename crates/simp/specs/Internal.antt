-- What functions promise each other, in this crate. A reader need not believe it: docs/READING.md.
pub mod Sheets
