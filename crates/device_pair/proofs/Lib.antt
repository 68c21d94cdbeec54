-- The files of lemmas.
mod BothSteps
