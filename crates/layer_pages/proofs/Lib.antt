-- The files of lemmas.
pub mod ObjectLemmas
pub mod LayerLemmas
pub mod AnswerLemmas
pub mod MadeLemmas
pub mod RemovedLemmas
pub mod ReplacedLemmas
pub mod FreeLemmas
pub mod LoadLemmas
pub mod CheckLemmas
pub mod CountLemmas
