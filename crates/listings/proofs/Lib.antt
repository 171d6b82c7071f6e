pub mod Penned
pub mod Changed
