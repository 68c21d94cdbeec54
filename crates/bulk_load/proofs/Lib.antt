-- The files of lemmas.
pub mod SortLemmas
pub mod HintLemmas
pub mod TieLemmas
pub mod CutLemmas
pub mod TilingLemmas
pub mod SlabLemmas
pub mod RowWords
pub mod PackedLemmas
pub mod LiftLemmas
pub mod LevelLemmas
pub mod SizeLemmas
pub mod CacheLemmas
pub mod LoadLemmas
pub mod Examples
