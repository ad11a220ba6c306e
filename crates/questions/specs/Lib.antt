pub mod Faults
pub mod Separate
