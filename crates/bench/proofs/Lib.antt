pub mod Begins
pub mod Edits
pub mod Questions
pub mod Solved
pub mod Sound
