-- The files of lemmas.
pub mod ReadLemmas
pub mod StandingLemmas
pub mod StandingBoxes
pub mod RootedLemmas
pub mod PartLemmas
pub mod ChangeLemmas
pub mod StandingExamples
pub mod NodeLemmas
pub mod BoxedPages
pub mod LeafLemmas
pub mod RowEnds
pub mod GivenLemmas
pub mod VisitLemmas
pub mod CheckLemmas
pub mod CountLemmas
pub mod DamageLemmas
