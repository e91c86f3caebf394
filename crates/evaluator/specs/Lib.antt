pub mod State
pub mod Internal
