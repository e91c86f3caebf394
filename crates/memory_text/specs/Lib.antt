-- A memory as text ("The three texts", Memory): how it is printed, how it is read, and that the two agree.
pub mod Sizes
pub mod Printing
pub mod Reading
pub mod Theorems
pub mod Internal
