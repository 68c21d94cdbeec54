-- The files of lemmas.
pub mod Through
mod Chains
mod Stood
mod Recovering
mod Taking
mod Homing
mod WritingOne
mod Keeping
mod Copies
mod Opened
mod Reading
mod Adding
mod Appending
mod Making
