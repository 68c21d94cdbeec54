-- The files of definitions, and of the lemmas that callers cite.
pub mod Corners
pub mod Laws
