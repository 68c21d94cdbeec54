-- The files of definitions, and of the laws that callers cite.
pub mod Gathering
pub mod Answering
pub mod TextCommands
pub mod Serving
pub mod TextAnswers
pub mod Runs
pub mod Strict
