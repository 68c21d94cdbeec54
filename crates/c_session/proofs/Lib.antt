-- The lemma files.
mod Steps
mod GettingLemmas
mod RollingBack
