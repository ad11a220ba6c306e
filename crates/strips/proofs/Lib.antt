pub mod Letters
pub mod Deciding
pub mod Collecting
pub mod OneOutcome
pub mod Calls
pub mod Outcomes
