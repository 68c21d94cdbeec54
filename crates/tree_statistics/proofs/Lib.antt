-- The files of lemmas.
pub mod SumLemmas
pub mod SiblingLemmas
