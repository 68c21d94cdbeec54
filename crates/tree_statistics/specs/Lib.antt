-- The files of definitions.
pub mod Levels
pub mod Siblings
