-- The lemma files.
mod Arrays
mod PageLemmas
