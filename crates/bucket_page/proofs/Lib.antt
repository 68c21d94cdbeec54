-- The files of lemmas.
pub mod Places
pub mod Reading
pub mod HeadWritten
pub mod Writing
pub mod Named
mod Examples
pub mod OnePage
pub mod Editing
