pub mod ObjectLemmas
pub mod SeenLemmas
pub mod Results
pub mod BreakLemmas
pub mod WriteLemmas
pub mod EntryLemmas
