-- The laws of memory texts.
pub mod Examples
pub mod Trimming
pub mod Lines
pub mod Memories
pub mod Rows
pub mod Tables
pub mod Writes
