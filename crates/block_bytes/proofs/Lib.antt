-- The files of lemmas.
pub mod Back
pub mod HeadWritten
mod Examples
