-- The files of lemmas.
pub mod Writing
pub mod BothCorners
mod Examples
