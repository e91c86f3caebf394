-- The forms that the three texts are made of: how each is read and how it is printed.
pub mod Reading
pub mod Number
pub mod Set
pub mod Field
pub mod Lines
pub mod Theorems
pub mod Internal
