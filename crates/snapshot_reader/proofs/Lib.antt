-- The files of lemmas.
mod Reading
