-- The files of lemmas.
pub mod CommandLemmas
pub mod GatherLemmas
pub mod SessionLemmas
pub mod StrictLemmas
pub mod RunLemmas
pub mod CloseLemmas
pub mod AnswerLemmas
pub mod LoadLemmas
pub mod Examples
pub mod RunExamples
