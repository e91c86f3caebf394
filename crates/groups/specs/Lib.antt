pub mod Smallest
pub mod Listing
pub mod Answers
pub mod Calls
pub mod Theorems
pub mod Internal
