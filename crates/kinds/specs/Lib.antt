pub mod Stands
pub mod Feeders
