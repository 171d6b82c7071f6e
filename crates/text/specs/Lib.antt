pub mod Faults
pub mod Numerals
pub mod Words
pub mod Lines
pub mod Reading
pub mod Slips
