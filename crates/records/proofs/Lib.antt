pub mod Groups
pub mod Noted
