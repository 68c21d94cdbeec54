-- The files of lemmas.
pub mod LawfulExamples
