pub mod Calls
pub mod PlayCalls
