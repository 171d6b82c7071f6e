-- The definitions that the contracts cite.
pub mod Live
pub mod Shadow
