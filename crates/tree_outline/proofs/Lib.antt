-- The files of lemmas.
pub mod OutlineLemmas
pub mod WalkLemmas
