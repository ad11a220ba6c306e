pub mod Scanning
pub mod Encoding
pub mod Reading
pub mod OneReading
pub mod Lines
pub mod Progress
pub mod Commas
