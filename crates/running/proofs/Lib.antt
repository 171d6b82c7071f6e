pub mod Rows
pub mod Counted
pub mod Stepped
pub mod Admitted
pub mod Heard
