-- The files of lemmas.
pub mod WriteLemmas
pub mod FrontLemmas
pub mod Examples
