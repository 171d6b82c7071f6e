pub mod Called
pub mod WasRead
pub mod OpenedCalls
pub mod Finishing
