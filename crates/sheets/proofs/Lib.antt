pub mod Valuing
pub mod Repeating
pub mod Rising
pub mod Whole
