pub mod Refusals
pub mod Answers
pub mod Calls
pub mod Internal
