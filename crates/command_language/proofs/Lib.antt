-- The files of lemmas.
pub mod WordLemmas
pub mod NumberLemmas
pub mod LineLemmas
pub mod TextLemmas
pub mod ReadLemmas
pub mod Examples
