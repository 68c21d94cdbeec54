-- The files of lemmas.
mod Steps
