-- The files of lemmas.
pub mod Places
pub mod NumbersWritten
pub mod Reading
pub mod Writing
pub mod Named
pub mod Examples
pub mod OnePage
