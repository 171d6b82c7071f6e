pub mod Kind
pub mod Plan
pub mod Opening
pub mod Worked
pub mod Calling
