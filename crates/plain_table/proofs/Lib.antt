-- The files of lemmas.
pub mod EntryLemmas
pub mod StepLemmas
pub mod Examples
