pub mod Putting
pub mod Giving
pub mod Stepped
pub mod Lengths
pub mod Printing
pub mod Running
pub mod Whole
