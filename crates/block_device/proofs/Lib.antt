-- The files of lemmas.
pub mod Examples
pub mod StopExamples
mod MemoryExamples
pub mod BlankLemmas
pub mod Done
pub mod Filling
pub mod Keeping
pub mod Logged
pub mod Numbers
pub mod Stops
