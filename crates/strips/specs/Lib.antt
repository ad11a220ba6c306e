pub mod Words
pub mod Faults
pub mod Rule
pub mod Strips
