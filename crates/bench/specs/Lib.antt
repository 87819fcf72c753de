pub mod Answers
pub mod Held
pub mod Rounds
pub mod Sound
pub mod Texts
