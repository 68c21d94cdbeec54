-- The files of lemmas.
mod Stills
mod Noting
mod GivingUp
