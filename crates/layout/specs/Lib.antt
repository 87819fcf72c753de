pub mod Writing
pub mod Reading
pub mod Faults
pub mod Placed
pub mod Opening
pub mod Targets
