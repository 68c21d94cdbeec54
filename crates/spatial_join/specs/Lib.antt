-- The files of definitions.
pub mod Pairs
pub mod Opening
pub mod Masks
pub mod Rows
