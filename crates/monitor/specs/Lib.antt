pub mod Products
pub mod Valid
pub mod Making
