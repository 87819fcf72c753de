pub mod Lists
pub mod Made
pub mod PlayMade
