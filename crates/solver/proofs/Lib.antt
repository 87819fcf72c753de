pub mod Filled
pub mod Held
pub mod Linking
pub mod Marks
pub mod Steps
pub mod Zeros
