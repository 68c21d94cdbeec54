-- The files of lemmas.
pub mod PairLemmas
pub mod OpeningLemmas
pub mod DamageLemmas
pub mod MaskLemmas
pub mod LeafPairs
pub mod LeafJoin
pub mod DescentLemmas
pub mod RootLemmas
pub mod RowsLemmas
pub mod Examples
