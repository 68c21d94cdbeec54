pub mod KindLemmas
pub mod WordsLemmas
mod WordsExamples
