-- Definitions, which clauses and ghost fields cite.
pub mod Mark
pub mod Shown
pub mod Behind
-- Lemmas on them, which ghost laws and laws cite.
pub mod GateBlock
pub mod MarkLaws
pub mod Refused
pub mod ShownLaws
pub mod BehindLaws
pub mod Pair
pub mod PairLaws
