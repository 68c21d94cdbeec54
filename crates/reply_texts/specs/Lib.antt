-- The files of definitions.
pub mod Texts
pub mod Writing
pub mod Refused
