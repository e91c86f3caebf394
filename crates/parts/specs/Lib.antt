-- Standard input as several texts parted by empty lines (the scope, the program show).
pub mod Parts
pub mod Feeding
pub mod Theorems
