-- The files of definitions.
pub mod Removal
pub mod Taken
pub mod Filled
pub mod Removed
pub mod Spelled
pub mod Becoming
pub mod Steps
