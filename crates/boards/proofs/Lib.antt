-- The lemmas that the answers share.
pub mod Cells
pub mod Changes
