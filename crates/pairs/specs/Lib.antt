pub mod Faults
pub mod Plates
pub mod Memories
pub mod Compared
pub mod Runs
pub mod Steps
