-- What the program show prints, as a function of the texts that it is given.
pub mod Fields
pub mod Numbers
pub mod Given
pub mod Output
pub mod Show
pub mod Order
pub mod Inputs
pub mod Theorems
pub mod Internal
