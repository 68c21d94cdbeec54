-- The files of definitions.
pub mod Outlines
pub mod Laws
