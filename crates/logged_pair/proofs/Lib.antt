-- The files of lemmas.
mod Stood
mod Stills
mod Keeping
mod Advanced
mod Reached
mod GivingUp
pub mod Snapped
mod Calling
mod Indexing
mod Newest
