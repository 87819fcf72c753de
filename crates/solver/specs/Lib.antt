pub mod Entries
pub mod Links
pub mod Moves
pub mod Positions
pub mod Ranks
pub mod Steps
pub mod Texts
