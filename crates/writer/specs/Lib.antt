pub mod Sets
pub mod Rows
pub mod Sinks
pub mod Laws
pub mod Outcomes
