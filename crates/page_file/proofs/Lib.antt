-- The files of lemmas.
pub mod Examples
mod PageExamples
pub mod Results
pub mod Moments
pub mod Walk
