pub mod Below
pub mod Digits
pub mod Members
