-- The files of definitions.
pub mod Objects
pub mod Seen
pub mod Damage
