pub mod Games
pub mod Refusals
pub mod Below
pub mod Texts
