-- The files of definitions.
pub mod Queries
pub mod Entries
