-- The files of lemmas.
pub mod BecomeLemmas
pub mod BelowLemmas
pub mod CutLemmas
pub mod DamageLemmas
pub mod FillLemmas
pub mod FreeLemmas
pub mod HoldLemmas
pub mod KeptLemmas
pub mod LeadLemmas
pub mod LowerLemmas
pub mod ObjectLemmas
pub mod RemoveLemmas
pub mod RoomLemmas
pub mod RootLemmas
pub mod ShapeLemmas
pub mod TakeLemmas
mod RemovalExamples
