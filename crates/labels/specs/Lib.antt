pub mod Labels
pub mod Lattice
pub mod Internal
