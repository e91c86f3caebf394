-- What a reader's move says of what was found, for the proofs of the crates that read.
pub mod Moves
