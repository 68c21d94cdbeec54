-- The files of lemmas.
pub mod QueryLemmas
pub mod EntryLemmas
pub mod FoundLemmas
pub mod EndLemmas
pub mod DescentLemmas
pub mod DamageLemmas
pub mod Examples
