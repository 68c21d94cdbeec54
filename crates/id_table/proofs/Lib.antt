-- The files of lemmas.
pub mod ChainLemmas
pub mod TreeLemmas
pub mod TableLemmas
pub mod KindLemmas
pub mod StepLemmas
