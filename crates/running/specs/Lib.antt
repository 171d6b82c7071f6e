pub mod Lanes
pub mod Run
pub mod Working
pub mod Admitting
pub mod Turning
pub mod Performed
