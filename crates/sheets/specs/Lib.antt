pub mod Faults
pub mod Lines
pub mod Sections
pub mod Sheet
pub mod Lent
