-- The files of lemmas.
pub mod RowLemmas
pub mod PositionLemmas
pub mod PickLemmas
pub mod KeyLemmas
pub mod OrderLemmas
pub mod OrderSums
pub mod UniqueOrder
pub mod SortedOrders
pub mod EntryLemmas
pub mod BoxLemmas
pub mod LeastBoxes
pub mod SearchLemmas
pub mod JoinLemmas
pub mod ObjectLemmas
pub mod PartPermutations
pub mod TreeExamples
mod SearchExamples
